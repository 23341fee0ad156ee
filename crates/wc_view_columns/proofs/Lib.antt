mod Followed
mod Joined
mod Parts
mod Rows
mod Settled
mod Together
mod Totals
mod Wholes
