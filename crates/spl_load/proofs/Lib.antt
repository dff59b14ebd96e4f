mod Hashes
mod OneRun
