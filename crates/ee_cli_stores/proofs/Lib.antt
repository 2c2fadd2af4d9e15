mod Told
mod Lines
mod InFiles
mod Bank
