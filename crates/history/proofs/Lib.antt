mod LogLaws
mod MemoryLaws
mod OutcomeLaws
mod RunLaws
