-- Refusals that a call hands on from the one below it.
use Rattle.std.proofs.Common.{◌≡◌, Result, Err}
use Rattle.ds_base.specs.declared.fault.Fault.{Fault}
use Rattle.ds_base.specs.declared.fault.ReadError.{ReadError}
use Rattle.ds_base.specs.declared.fault.ReadError.TheVariants as errors
use Rattle.ds_base.specs.Spot.{Spot}
use Rattle.ds_base.specs.Reading.{Gives, ReadsUnlessFull}

-- a refusal hands on the fault that reading gives
abbrev pub Refused : {Y : Type 0} → ReadError → Result Y Fault → Type 0
Refused (errors.Faulty f) read = read ≡ Err f
Refused errors.NoMemory read = Unit {0}

pub refused_is : {X Y : Type 0} (view : X → Y) (e : ReadError) (u : Spot) (read : Result (Y × Spot) Fault) → Refused e read → ReadsUnlessFull view (Err e) u read
refused_is view (errors.Faulty f) u read h = h
refused_is view errors.NoMemory u read h = h

pub refused_from : {X Y : Type 0} (view : X → Y) (e : ReadError) (u : Spot) (read : Result (Y × Spot) Fault) → ReadsUnlessFull view (Err e) u read → Refused e read
refused_from view (errors.Faulty f) u read h = h
refused_from view errors.NoMemory u read h = h

pub refused_gives : {X Y : Type 0} (view : X → Y) (e : ReadError) (read : Result Y Fault) → Refused e read → Gives view (Err e) read
refused_gives view (errors.Faulty f) read h = h
refused_gives view errors.NoMemory read h = h

pub refused_from_gives : {X Y : Type 0} (view : X → Y) (e : ReadError) (read : Result Y Fault) → Gives view (Err e) read → Refused e read
refused_from_gives view (errors.Faulty f) read h = h
refused_from_gives view errors.NoMemory read h = h
