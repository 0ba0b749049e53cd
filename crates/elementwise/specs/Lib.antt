pub mod Entrywise
