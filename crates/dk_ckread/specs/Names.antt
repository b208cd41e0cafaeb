-- What codecs and encodings are called that aren't read (Apache Parquet, parquet.thrift, "CompressionCodec", "Encoding").
use Rattle.std.specs.Prelude.{ℕ, ℤ, pos, List, ◌++◌, codes, Option, Some, None, if◌then◌else◌}
use Rattle.std.specs.Fmt.{signed_decimal}
use Rattle.std.specs.Ordering.{int_eq}

-- the name that the format gives to a codec
unfoldable pub known_codec : ℤ → Option (List ℕ)
known_codec n =
    if int_eq n (pos 1) then Some (codes "SNAPPY")
    else if int_eq n (pos 2) then Some (codes "GZIP")
    else if int_eq n (pos 3) then Some (codes "LZO")
    else if int_eq n (pos 4) then Some (codes "BROTLI")
    else if int_eq n (pos 5) then Some (codes "LZ4")
    else if int_eq n (pos 6) then Some (codes "ZSTD")
    else if int_eq n (pos 7) then Some (codes "LZ4_RAW")
    else None

abbrev pub named_or : Option (List ℕ) → List ℕ → List ℕ
named_or None other = other
named_or (Some name) other = name

abbrev pub codec_name : ℤ → List ℕ
codec_name n = named_or (known_codec n) (codes "CODEC_" ++ signed_decimal n)

abbrev pub encoding_name : ℤ → List ℕ
encoding_name n = codes "ENCODING_" ++ signed_decimal n
