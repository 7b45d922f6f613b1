pub mod Numbers
pub mod Pcap
pub mod Blocks
pub mod Captures
pub mod Written
pub mod Worked
