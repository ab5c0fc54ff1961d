-- How a file ends. All is of this project.
use Rattle.std.specs.Prelude.{ℕ, ◌+◌, Bool, true, false, length}
use Rattle.binaryfile.specs.Entries.{Contents}
use Rattle.file_replay.specs.declared.file_end.FileEnd.{FileEnd}

-- before the first segment
abbrev pub no_end : FileEnd
no_end = record { marked = false; tail = 0 }

-- how many bytes the tail has with more: after an end marker all is tail
abbrev pub tail_length : Bool → ℕ → ℕ → ℕ
tail_length true tail more = tail + more
tail_length false tail more = more

-- with a segment more
abbrev pub end_after : FileEnd → Contents → FileEnd
end_after end segment = record {
  marked = segment.marked;
  tail = tail_length end.marked end.tail (length segment.tail);
}
