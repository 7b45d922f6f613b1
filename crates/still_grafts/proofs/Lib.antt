mod AnswerEvents
mod Awaited
mod Idle
mod Script
mod Left
