mod SentSegments
mod ByRounds
mod Packets
mod Inputs
mod Sessions
mod Taps
mod Whole
