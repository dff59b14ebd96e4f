mod Adding
mod Ends
mod Living
mod Gathering
mod Stops
mod Walking
mod Rising
