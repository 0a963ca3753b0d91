mod TermLaws
