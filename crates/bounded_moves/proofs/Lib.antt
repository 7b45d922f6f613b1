mod Ranks
mod Freezes
mod Counts
mod Queues
mod Over
mod Bounded
