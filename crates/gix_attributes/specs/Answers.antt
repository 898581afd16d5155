-- What a read of a file returns (own).
use Rattle.std.specs.Prelude.{ℕ, ⊤, Bool, true, false, List, Result, Ok, Err}
use Rattle.gix_attributes.specs.declared.files.ReadError.{ReadError}
use Rattle.gix_attributes.specs.declared.files.ReadError.TheVariants.{Device, OutOfMemory}

-- the file's bytes, no such file, a device that failed, or no memory
pub data ReadAnswer : Type 0 where
  found : List ℕ → ReadAnswer
  missing : ReadAnswer
  device_failed : ReadAnswer
  memory_refused : ReadAnswer

-- the answer that a call's result and the contents of its buffer make
abbrev pub read_answer : Result Bool ReadError → List ℕ → ReadAnswer
read_answer (Ok true) bytes = found bytes
read_answer (Ok false) bytes = missing
read_answer (Err (Device e)) bytes = device_failed
read_answer (Err OutOfMemory) bytes = memory_refused

-- the error is a failure of the device
abbrev pub IsDevice : ReadError → Type 0
IsDevice (Device e) = ⊤
IsDevice OutOfMemory = ⊥
