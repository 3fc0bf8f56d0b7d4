-- The entries that places hold.
use Rattle.std.specs.Prelude.{List, take}
use Rattle.policy.specs.declared.places.Places.{Places}

-- in the order of their numbers
abbrev pub entries : {E : Type 0} → Places E → List E
entries p = take p.len p.rows
