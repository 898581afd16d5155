-- The view of a `Memory` (own).
use Rattle.std.specs.Option.{option_map}
use Rattle.std.specs.HashMap.{get_by_text}
use Rattle.gix_attributes.specs.declared.files.memory.Memory.{Memory}
use Rattle.gix_attributes.specs.MemoryFiles.{MemoryFiles}

-- the bytes under each name, and the counts
abbrev pub memory_view : Memory → MemoryFiles
memory_view m =
    record {
      files = λ name. option_map (λ v. v.items) (get_by_text m.contents name);
      failing = m.failing;
      failures = m.failures;
    }
