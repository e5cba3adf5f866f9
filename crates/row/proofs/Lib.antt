-- A row after stores, for whoever stores in one.
pub mod Rows
