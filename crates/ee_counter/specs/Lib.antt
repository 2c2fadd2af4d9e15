pub mod Served
pub mod Answering
pub mod Serving
pub mod Filing
pub mod Inner
