mod Dividing
mod Entries
mod Lines
mod Numbers
mod OneReading
mod ReadSoFar
