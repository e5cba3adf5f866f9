-- Tests in a row.
pub mod Failing
