-- Reads of the real disk (own).
use Rattle.std.specs.Prelude.{◌≡◌, ℕ}
use Rattle.gix_attributes.specs.Answers.{ReadAnswer, found, missing, device_failed, memory_refused}
use Rattle.gix_attributes.specs.Failures.{one_more}

-- the counts of a disk: the files that were read to their ends, and the reads that the device failed
pub record DiskCounts : Type 0 where
  pub files_read : ℕ
  pub failures : ℕ

-- nothing is known of the contents; each file that was found is counted, and each failure of the device
abbrev pub DiskReads : DiskCounts → ReadAnswer → DiskCounts → Type 0
DiskReads old (found bytes) new = new ≡ record old { files_read = one_more old.files_read }
DiskReads old missing new = new ≡ old
DiskReads old device_failed new = new ≡ record old { failures = one_more old.failures }
DiskReads old memory_refused new = new ≡ old
