pub mod PairedCalls
