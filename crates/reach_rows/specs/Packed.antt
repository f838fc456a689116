-- How rows in memory are packed, and what packed rows stand for.
use Rattle.std.specs.Prelude.{◌≡◌, ◌≢◌, ℕ, ◌-◌, ◌<◌, ◌≤◌, ◌^◌, ◌==◌, true, min, if◌then◌else◌, List, Option, Some, None, IfSome, length, map, set, slice_index_or}
use Rattle.flow_base.specs.declared.types.Flow.{Flow}
use Rattle.reach_rows.specs.Indexes.{index_in}
use Rattle.reach_rows.specs.declared.objects.Object.{Object}
use Rattle.reach_rows.specs.declared.packed.PackedRow.{PackedRow}
use Rattle.reach_rows.specs.declared.packed_objects.PackedObject.{PackedObject}
use Rattle.reach_rows.specs.declared.packed.Extension.{Extension}
use Rattle.reach_rows.specs.declared.rows.Mark.{Mark}
use Rattle.reach_rows.specs.declared.rows.Row.{Row as KeptRow}

-- rows, and room for this many flows, each of which is one more row or extends one
pub record KeptRows : Type 0 where
  pub rows : List KeptRow
  pub room : ℕ

-- the rows, of which the one at an index has this last mark now
abbrev pub with_last : List KeptRow → ℕ → Mark → KeptRow → List KeptRow
with_last rows i last d = set rows i (record (slice_index_or rows i d) { last = last })

-- the link that names no row
abbrev pub NONE : ℕ
NONE = 2 ^ 48 - 1

-- how many more items fit in a list of this capacity and length, if each has an index that a link can name
abbrev pub room_in : ℕ → ℕ → ℕ
room_in capacity len = min capacity NONE - len

-- the row that a link names, if it names one
abbrev pub row_of_link : ℕ → Option ℕ
row_of_link link = if link == NONE then None else Some link

-- a link can name this row, if there is one
abbrev pub IsLinkable : Option ℕ → Type 0
IsLinkable row = IfSome row (λ index. index < NONE)

-- the place and the last mark of a row that has no extension: it ends where it begins
abbrev pub own_of : PackedRow → Extension
own_of p =
    let place = index_in p.place_or_extension in
    record { place = place; last = record { at = record { ms = p.ms; place = place }; how = p.how; serial = p.serial } }

-- the extension of a row, or what it would be if the row had one
abbrev pub extension_of : List Extension → PackedRow → Extension
extension_of extensions p =
    if p.extended then slice_index_or extensions (index_in p.place_or_extension) (own_of p) else own_of p

-- the row that a packed one stands for with this extension
abbrev pub row_with : PackedRow → Extension → KeptRow
row_with p extension = record {
  from = p.from;
  to = p.to;
  first = record { at = record { ms = p.ms; place = extension.place }; how = p.how; serial = p.serial };
  last = extension.last;
  before_to = row_of_link (index_in p.before_to);
  before_from = row_of_link (index_in p.before_from);
}

-- the row that a packed one stands for
abbrev pub row_of_packed : List Extension → PackedRow → KeptRow
row_of_packed extensions p = row_with p (extension_of extensions p)

-- the rows that packed ones stand for
abbrev pub rows_of_packed : List Extension → List PackedRow → List KeptRow
rows_of_packed extensions packed = map (row_of_packed extensions) packed

-- the extension of a row of one flow
abbrev pub extension_of_flow : Flow → Extension
extension_of_flow f = record { place = f.at.place; last = record { at = f.at; how = f.how; serial = f.serial } }

-- the row of one flow, with its links
abbrev pub row_of_flow : Flow → Option ℕ → Option ℕ → KeptRow
row_of_flow f before_to before_from = record {
  from = f.from;
  to = f.to;
  first = record { at = f.at; how = f.how; serial = f.serial };
  last = record { at = f.at; how = f.how; serial = f.serial };
  before_to = before_to;
  before_from = before_from;
}

-- if the row has an extension, it is there
abbrev pub HasExtension : List Extension → PackedRow → Type 0
HasExtension extensions p = p.extended ≡ true → index_in p.place_or_extension < length extensions

-- each row that has an extension has one of its own, and rows and extensions are few enough for links and rows to name them
pub record HaveExtensions (extensions : List Extension) (packed : List PackedRow) : Type 0 where
  pub each : (i : ℕ) (d : PackedRow) → i < length packed → HasExtension extensions (slice_index_or packed i d)
  pub apart : (i j : ℕ) (d : PackedRow) → i < length packed → j < length packed → i ≢ j
      → (slice_index_or packed i d).extended ≡ true → (slice_index_or packed j d).extended ≡ true
      → index_in (slice_index_or packed i d).place_or_extension ≢ index_in (slice_index_or packed j d).place_or_extension
  pub few_rows : length packed ≤ NONE
  pub few_extensions : length extensions ≤ NONE

-- what is known of each object, and room for this many more of them
pub record KnownObjects : Type 0 where
  pub objects : List Object
  pub room : ℕ

-- the object that a packed one stands for
abbrev pub object_of_packed : PackedObject → Object
object_of_packed p = record {
  first = record { at = record { ms = p.ms; place = p.place }; out = p.out };
  last_into = row_of_link (index_in p.last_into);
  last_from = row_of_link (index_in p.last_from);
}

-- the objects that packed ones stand for
abbrev pub objects_of_packed : List PackedObject → List Object
objects_of_packed packed = map object_of_packed packed
