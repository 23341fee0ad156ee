mod Kept
mod Unrefused
