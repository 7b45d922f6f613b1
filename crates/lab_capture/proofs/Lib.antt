mod Times
mod Packets
mod Links
mod Runs
mod Entries
mod Tapped
