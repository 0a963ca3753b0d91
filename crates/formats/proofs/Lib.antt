mod CodingLaws
