mod BytesBack
