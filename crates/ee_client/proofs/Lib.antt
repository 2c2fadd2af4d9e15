mod Counting
mod Answering
mod Keeping
mod Growing
mod Moving
mod Whole
mod Ending
mod Settling
