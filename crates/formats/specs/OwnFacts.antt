-- What a P3109 format knows of its own width and precision.
use Rattle.formats.specs.P3109.{Exists}
use Rattle.formats.specs.declared.p3109.P3109.{P3109}

pub exists : (f : P3109) → Exists f.width f.precision
exists f = (f.wide, f.narrow, f.precise, f.short)
