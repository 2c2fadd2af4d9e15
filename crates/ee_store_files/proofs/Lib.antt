mod Counts
mod Failing
mod Frames
mod Left
mod Orphaned
mod Stops
