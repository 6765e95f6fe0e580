mod Children
mod Heads
