mod Names
mod Infos
mod Sound
mod Sendable
mod Steps
mod Carried
mod Listed
