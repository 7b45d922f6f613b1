mod Sound
mod Configs
