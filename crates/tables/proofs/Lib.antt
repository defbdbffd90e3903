mod Parts
mod Commands
