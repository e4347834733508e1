-- The one pass makes of a program what the list of its operations means.
use Rattle.std.proofs.Common.{◌≡◌, ℕ, zero, suc, ◌-◌, Bool, true, false, List, [], ◌∷◌, ◌++◌, Option, Some, None, Result, Ok, Err, refl, sym, ap, ◌∙◌, append_assoc}
use Rattle.std.specs.Prelude.{◌==◌, if◌then◌else◌}
use Rattle.std.proofs.lemmas.List.{append-nil}
use Rattle.ds_base.specs.declared.fault.Fault.{Fault}
use Rattle.ds_base.specs.declared.fault.ReadError.{ReadError}
use Rattle.ds_base.specs.declared.fault.ReadError.TheVariants as errors
use Rattle.ds_base.specs.declared.fault.Kind.TheVariants as kinds
use Rattle.ds_base.specs.Spot.{Spot, fault_at}
use Rattle.ds_base.specs.Reading.{◌>>=◌, refuse_if, Gives}
use Rattle.dwarf_types.specs.declared.address.Addr.{Addr}
use Rattle.dwarf_types.specs.declared.lines.FileName.{FileName}
use Rattle.dwarf_types.specs.declared.lines.RawLines.{RawLines}
use Rattle.dwarf_types.specs.declared.lines.RawRow.{RawRow}
use Rattle.dwarf_types.specs.declared.lines.RawSequence.{RawSequence}
use Rattle.dwarf_types.specs.SeenLines.{last_of}
use Rattle.line_read.specs.declared.header.LineHeader.{LineHeader}
use Rattle.line_read.specs.declared.operation.LineOp.{LineOp}
use Rattle.line_read.specs.declared.operation.LineOp.TheVariants as ops
use Rattle.line_read.specs.declared.program.Matrix.{Matrix}
use Rattle.line_read.specs.Registers.{initial, changed, cleared}
use Rattle.line_read.specs.Program.{Listing, listed, ops_at, defined, MatrixRow, matrix, last_placed, falls, backwards, all_rise, before, sequences, unless_stopped, program_of}
use Rattle.line_read.specs.Pass.{empty_matrix, row_at, end_at, step_of, run_at, finished}

-- ---- rows that are open, before sequences

abbrev with_rows : List RawRow → List RawSequence → List RawSequence
with_rows [] more = more
with_rows (row ∷ rows) more = before row (with_rows rows more)

rows_push : (rows : List RawRow) (row : RawRow) (more : List RawSequence) → with_rows rows (before row more) ≡ with_rows (rows ++ row ∷ []) more
rows_push [] row more = refl
rows_push (x ∷ rows) row more = ap (before x) (rows_push rows row more)

rows_end : (rows : List RawRow) (end : Addr) (more : List RawSequence) → with_rows rows (record { rows = []; end = Some end } ∷ more) ≡ record { rows = rows; end = Some end } ∷ more
rows_end [] end more = refl
rows_end (x ∷ rows) end more = ap (before x) (rows_end rows end more)

rows_open : (row : RawRow) (rows : List RawRow) → with_rows (row ∷ rows) [] ≡ record { rows = row ∷ rows; end = None } ∷ []
rows_open row [] = refl
rows_open row (x ∷ rows) = ap (before row) (rows_open x rows)

rows_left : (rows : List RawRow) → with_rows rows [] ≡ last_of rows
rows_left [] = refl
rows_left (row ∷ rows) = rows_open row rows

-- ---- what is left of a program, where some of it has been run

abbrev table : List (List ℕ) → Matrix → List FileName → List MatrixRow → RawLines
table dirs m files rows = record { dirs = dirs; files = m.files ++ files; sequences = m.built.ended ++ with_rows m.built.rows (sequences rows) }

abbrev so_far : Result (Unit {0}) Fault → Option Fault → RawLines → Result RawLines Fault
so_far rise stop lines = rise >>= λ u. unless_stopped stop >>= λ v. Ok lines

abbrev left_of : LineHeader → List (List ℕ) → Matrix → Listing → Result RawLines Fault
left_of header dirs m l = so_far (all_rise m.last (matrix header m.registers l.ops)) l.stop (table dirs m (defined l.ops) (matrix header m.registers l.ops))

abbrev with_op : ℕ → LineOp → Listing → Listing
with_op place op l = record l { ops = (place, op) ∷ l.ops }

-- a row that may fall
tried : (b : Bool) (f : Fault) (rise : Result (Unit {0}) Fault) (stop : Option Fault) (x y : RawLines) (new : Matrix) (more : Matrix → Result RawLines Fault)
    → x ≡ y → more new ≡ so_far rise stop y → so_far (refuse_if b f >>= λ u. rise) stop x ≡ ((refuse_if b f >>= λ u. Ok new) >>= more)
tried true f rise stop x y new more e k = refl
tried false f rise stop x y new more e k = ap (so_far rise stop) e ∙ sym k

abbrev lines_with : List (List ℕ) → List FileName → List RawSequence → RawLines
lines_with dirs files ss = record { dirs = dirs; files = files; sequences = ss }

row_step : (header : LineHeader) (dirs : List (List ℕ)) (place : ℕ) (r : RawRow) (m : Matrix) (l : Listing)
    → so_far (all_rise m.last (record { place = place; registers = r; ends = false } ∷ matrix header (cleared r) l.ops)) l.stop (table dirs m (defined l.ops) (record { place = place; registers = r; ends = false } ∷ matrix header (cleared r) l.ops))
    ≡ (row_at place r m >>= λ new. left_of header dirs new l)
unfolding row_at
row_step header dirs place r m l =
    let rows = matrix header (cleared r) l.ops in
    tried (falls m.last r.at) (backwards place) (all_rise (last_placed m.last r.at) rows) l.stop _ _ _ _
    (ap (λ (ss : List RawSequence). lines_with dirs (m.files ++ defined l.ops) (m.built.ended ++ ss)) (rows_push m.built.rows r (sequences rows))) refl

end_step : (header : LineHeader) (dirs : List (List ℕ)) (place : ℕ) (m : Matrix) (l : Listing) → left_of header dirs m (with_op place ops.EndSequence l) ≡ (end_at header place m >>= λ new. left_of header dirs new l)
unfolding end_at
end_step header dirs place m l =
    let rows = matrix header (initial header) l.ops in
    tried (falls m.last m.registers.at) (backwards place) (all_rise None rows) l.stop _ _ _ _
    (ap (λ (ss : List RawSequence). lines_with dirs (m.files ++ defined l.ops) ss)
    (ap (λ (ss : List RawSequence). m.built.ended ++ ss) (rows_end m.built.rows m.registers.at (sequences rows)) ∙ sym (append_assoc m.built.ended (record { rows = m.built.rows; end = Some m.registers.at } ∷ []) (sequences rows)))) refl

op_step : (header : LineHeader) (dirs : List (List ℕ)) (place : ℕ) (op : LineOp) (m : Matrix) (l : Listing) → left_of header dirs m (with_op place op l) ≡ (step_of header place op m >>= λ new. left_of header dirs new l)
unfolding step_of changed
op_step header dirs place (ops.Special n) m l = row_step header dirs place (changed header (ops.Special n) m.registers) m l
op_step header dirs place ops.Copy m l = row_step header dirs place m.registers m l
op_step header dirs place ops.EndSequence m l = end_step header dirs place m l
op_step header dirs place (ops.DefineFile file) m l = rw (append_assoc m.files (file ∷ []) (defined l.ops)) refl
op_step header dirs place (ops.AdvancePc n) m l = refl
op_step header dirs place (ops.AdvanceLine n) m l = refl
op_step header dirs place (ops.SetFile n) m l = refl
op_step header dirs place (ops.SetColumn n) m l = refl
op_step header dirs place ops.NegateStmt m l = refl
op_step header dirs place ops.SetBasicBlock m l = refl
op_step header dirs place ops.ConstAddPc m l = refl
op_step header dirs place (ops.FixedAdvancePc n) m l = refl
op_step header dirs place ops.SetPrologueEnd m l = refl
op_step header dirs place ops.SetEpilogueBegin m l = refl
op_step header dirs place (ops.SetIsa n) m l = refl
op_step header dirs place (ops.SetAddress at) m l = refl
op_step header dirs place (ops.SetDiscriminator n) m l = refl
op_step header dirs place ops.Unknown m l = refl

-- ---- the whole

abbrev done : RawLines → Result RawLines Fault
done lines = Ok lines

abbrev ended : List (List ℕ) → Result Matrix Fault → Result RawLines Fault
ended dirs run = run >>= λ m. Ok (finished dirs m)

all_run : (header : LineHeader) (dirs : List (List ℕ)) (m : Matrix) → ended dirs (Ok m) ≡ left_of header dirs m (record { ops = []; stop = None })
all_run header dirs m = sym (ap done (rw (append-nil m.files, rows_left m.built.rows) refl))

then_run : (header : LineHeader) (dirs : List (List ℕ)) (l : Listing) (step : Result Matrix Fault) (run : Matrix → Result Matrix Fault)
    → ((m : Matrix) → ended dirs (run m) ≡ left_of header dirs m l) → ended dirs (step >>= run) ≡ (step >>= λ new. left_of header dirs new l)
then_run header dirs l (Ok m) run h = h m
then_run header dirs l (Err f) run h = refl

op_run : (header : LineHeader) (dirs : List (List ℕ)) (place : ℕ) (m : Matrix) (op : Result (LineOp × Spot) Fault) (run : Matrix → Spot → Result Matrix Fault) (more : Spot → Listing)
    → ((m : Matrix) (t : Spot) → ended dirs (run m t) ≡ left_of header dirs m (more t))
    → ended dirs (op >>= λ x. step_of header place x.0 m >>= λ new. run new x.1) ≡ left_of header dirs m (listed place op more)
op_run header dirs place m (Ok (op, t)) run more h = then_run header dirs (more t) (step_of header place op m) (λ new. run new t) (λ new. h new t) ∙ sym (op_step header dirs place op m (more t))
op_run header dirs place m (Err f) run more h = refl

at_end : (b : Bool) (header : LineHeader) (dirs : List (List ℕ)) (m : Matrix) (run : Result Matrix Fault) (more : Listing)
    → ended dirs run ≡ left_of header dirs m more → ended dirs (if b then Ok m else run) ≡ left_of header dirs m (if b then record { ops = []; stop = None } else more)
at_end true header dirs m run more h = all_run header dirs m
at_end false header dirs m run more h = h

-- the count runs out
run_out : (b : Bool) (f : Fault) (header : LineHeader) (dirs : List (List ℕ)) (m : Matrix) → ended dirs (if b then Ok m else Err f) ≡ left_of header dirs m (record { ops = []; stop = if b then None else Some f })
run_out true f header dirs m = all_run header dirs m
run_out false f header dirs m = refl

run_is : (read : Spot → Result (LineOp × Spot) Fault) (header : LineHeader) (dirs : List (List ℕ)) (n : ℕ) (m : Matrix) (s : Spot) → ended dirs (run_at read header n m s) ≡ left_of header dirs m (ops_at read n s)
run_is read header dirs zero m s = run_out (s.end - s.place == 0) (fault_at s kinds.Truncated) header dirs m
run_is read header dirs (suc n) m s =
    at_end (s.end - s.place == 0) header dirs m _ _
    (op_run header dirs s.place m (read s) (λ new t. run_at read header n new t) (λ t. ops_at read n t) (λ new t. run_is read header dirs n new t))

pub program_is : (read : Spot → Result (LineOp × Spot) Fault) (header : LineHeader) (dirs : List (List ℕ)) (files : List FileName) (n : ℕ) (s : Spot)
    → (run_at read header n (empty_matrix header files) s >>= λ m. Ok (finished dirs m)) ≡ program_of header dirs files (ops_at read n s)
unfolding program_of
program_is read header dirs files n s = run_is read header dirs n (empty_matrix header files) s

-- ---- what the pass answers

pub run_refused : (dirs : List (List ℕ)) (run : Result Matrix Fault) (e : ReadError) (total : Result RawLines Fault)
    → (run >>= λ m. Ok (finished dirs m)) ≡ total → Gives {X = Matrix} (λ m. m) (Err e) run → Gives {X = RawLines} (λ lines. lines) (Err e) total
run_refused dirs run (errors.Faulty f) total law is = sym law ∙ rw is refl
run_refused dirs run errors.NoMemory total law is = tt

pub run_finished : (dirs : List (List ℕ)) (run : Result Matrix Fault) (m : Matrix) (lines : RawLines) (total : Result RawLines Fault)
    → (run >>= λ m. Ok (finished dirs m)) ≡ total → run ≡ Ok m → lines ≡ finished dirs m → total ≡ Ok lines
run_finished dirs run m lines total law is made = sym law ∙ rw (is, made) refl
