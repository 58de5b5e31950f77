pub mod Booleans
pub mod Numbers
pub mod Integers
pub mod Options
pub mod Results
pub mod Lists
pub mod Recursion
