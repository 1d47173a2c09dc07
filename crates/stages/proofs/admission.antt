-- Each way out of the tests.
mod Ways
