mod NumeralLaws
mod PaddingLaws
mod RowLaws
mod TableLaws
