pub mod PropertyTests
