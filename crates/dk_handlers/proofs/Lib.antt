mod WrittenFields
