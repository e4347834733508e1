mod Standing
mod Trying
mod Missing
mod Telling
mod Refused
mod Noted
