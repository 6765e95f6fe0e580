mod Numbered
mod Rules
