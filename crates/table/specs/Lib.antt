pub mod Lists
pub mod Found
pub mod Sets
pub mod Numbers
