mod Tables
mod Heard
mod Routers
mod Worlds
