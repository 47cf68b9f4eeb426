pub mod Milliseconds
