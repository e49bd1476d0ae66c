mod FileSteps
mod ReaderLemmas
mod Results
mod SlotLemmas
