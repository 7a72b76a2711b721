-- A walk of one place more.
mod Steps
