-- The numbers of document 01 that later requests move: the limits of an image, and the sizes of the answer area's parts.
use Rattle.std.specs.Prelude.{◌+◌, ◌*◌}
use Rattle.definition.specs.Prelude.{ℕ}

-- "The prepared image": the greatest counts, the greatest literal width in bits, and the nesting of groups
abbrev pub limits : record { concatenations : ℕ; components : ℕ; records : ℕ; text : ℕ; literal_bytes : ℕ; width : ℕ; depth : ℕ }
limits = record { concatenations = 16; components = 256; records = 2048; text = 16384; literal_bytes = 8192; width = 4096; depth = 32 }

-- "The answer area": its head, and each concatenation and component
abbrev pub sizes : record { head : ℕ; concatenation : ℕ; component : ℕ }
sizes = record { head = 32; concatenation = 20; component = 72 }

-- "8 area shorter than 32 + 20·C + 72·N + B"
abbrev pub area_needed : ℕ → ℕ → ℕ → ℕ
area_needed c n b = sizes.head + sizes.concatenation * c + sizes.component * n + b

-- the largest image: its header, and the five tables at their limits
abbrev pub max_image : ℕ
max_image = 40 + 4 * limits.concatenations + 8 * limits.components + 12 * limits.records + limits.text + limits.literal_bytes

-- "input above 51,306 bytes is judged on its first 51,306, which no image can fill": a mode byte, and a byte more than any image has
abbrev pub max_input : ℕ
max_input = max_image + 2
