pub mod CodeTables
pub mod Promises
