pub mod Framing
pub mod Heads
pub mod Stream
pub mod Reading
pub mod Inner
