-- The bytes that are printed of a refusal. Assumes nothing.
--   record_text   the record of a refusal, as (refused 11 (layer 3) (line 0) (place 0) (value 3))
use Rattle.std.specs.Prelude.{ℕ, List, ◌++◌, codes, decimal}
use Rattle.refusal.specs.declared.cases.Refusal.{Refusal}
use Rattle.refusal.specs.Records.{record_of}

abbrev pub record_text : Refusal → List ℕ
record_text e =
    codes "(refused " ++ (decimal (record_of e).number
    ++ (codes " (layer " ++ (decimal (record_of e).layer
    ++ (codes ") (line " ++ (decimal (record_of e).line
    ++ (codes ") (place " ++ (decimal (record_of e).place
    ++ (codes ") (value " ++ (decimal (record_of e).value
    ++ codes "))")))))))))
