mod Keeping
mod Waiting
mod Refusals
mod Orders
mod Reports
mod Groups
mod Finding
