-- What the reading of a list answers.
use Rattle.std.specs.Prelude.{◌≡◌, ◌++◌, ℕ, List, [], ◌∷◌, None, Some, Result, Ok, Err, map, filter}
use Rattle.std.specs.List.{find}
use Rattle.batch_list.specs.Lines as spec
use Rattle.batch_list.specs.declared.lines.Line.{Line}
use Rattle.batch_list.specs.declared.lines.ListError.{ListError}
use Rattle.batch_list.specs.declared.lines.ListError.TheVariants as errors

-- a line by its number and its bytes
abbrev pub line_seen : Line → spec.Line
line_seen line = (line.number, line.exe.now)

-- What was read of a list is what is wanted, or the first line that is refused; unless memory ran out.
abbrev pub Lists : Result (List Line) ListError → Result (List spec.Line) ℕ → Type 0
Lists (Ok lines) wanted = wanted ≡ Ok (map line_seen lines)
Lists (Err (errors.BadLine line)) wanted = wanted ≡ Err line
Lists (Err errors.NoMemory) wanted = Unit {0}

-- A line was read behind those before it: the program that it names comes to theirs, if it isn't empty, or it is refused; unless memory ran out.
abbrev pub Adds : Result (Unit {0}) ListError → List spec.Line → List spec.Line → spec.Line → Type 0
Adds (Ok done) old new line = (new ≡ old ++ filter spec.is_filled (line ∷ [])) × (find spec.is_refused (filter spec.is_filled (line ∷ [])) ≡ None)
Adds (Err (errors.BadLine number)) old new line = (number ≡ line.0) × (find spec.is_refused (filter spec.is_filled (line ∷ [])) ≡ Some line)
Adds (Err errors.NoMemory) old new line = Unit {0}
