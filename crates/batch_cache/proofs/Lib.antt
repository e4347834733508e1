mod Apart
mod Sound
