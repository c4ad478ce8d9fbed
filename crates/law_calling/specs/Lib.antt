pub mod ReadsRun
