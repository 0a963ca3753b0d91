pub mod BenchLaws
pub mod SheetLaws
