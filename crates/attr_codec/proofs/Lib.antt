pub mod SortLaws
pub mod PathLaws
pub mod PieceLaws
pub mod SaidLaws
pub mod ReadLaws
pub mod WriteLaws
