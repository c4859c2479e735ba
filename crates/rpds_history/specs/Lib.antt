pub mod HistoryContents
