pub mod Accepted
pub mod Says
pub mod Orders
pub mod Tables
pub mod Budgets
