pub mod Cells
pub mod Tables
pub mod Forms
pub mod Sorts
pub mod SortLists
pub mod Promises
